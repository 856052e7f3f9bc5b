pub mod Reading
pub mod Machine
pub mod Bounds
pub mod Requests
pub mod Events
pub mod Laws
pub mod Worked
pub mod Promise
