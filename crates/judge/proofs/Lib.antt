pub mod Availables
pub mod Bitwise
pub mod Decided
pub mod Logic
pub mod Searches
pub mod Theorem
pub mod Unavailables
