pub mod Steps
pub mod Layouts
pub mod Rules
pub mod Programs
pub mod Laws
