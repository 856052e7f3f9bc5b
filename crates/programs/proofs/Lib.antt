pub mod Stored
pub mod Fitting
pub mod Puttings
pub mod Lengths
pub mod Saves
pub mod StepReaders
pub mod Exact
pub mod Returned
