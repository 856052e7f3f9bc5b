pub mod Cutting
pub mod Sheets
pub mod Served
