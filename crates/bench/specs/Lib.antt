pub mod Quiet
pub mod Shown
pub mod Runs
pub mod Replies
