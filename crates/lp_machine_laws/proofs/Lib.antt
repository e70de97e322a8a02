pub mod Cut
pub mod Steps
pub mod Runs
pub mod States
pub mod Unswitched
