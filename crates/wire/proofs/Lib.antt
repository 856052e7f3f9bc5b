pub mod Steps
pub mod Groups
pub mod Forms
pub mod Spelled
pub mod Faults
pub mod Laid
