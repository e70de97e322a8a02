pub mod Outcome
pub mod Replies
pub mod Legs
pub mod Runs
pub mod inside
