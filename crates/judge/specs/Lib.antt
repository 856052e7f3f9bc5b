pub mod Right
pub mod Rules
pub mod Tests
pub mod Verdict
pub mod Worked
