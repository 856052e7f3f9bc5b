pub mod Cuts
pub mod Verdicts
