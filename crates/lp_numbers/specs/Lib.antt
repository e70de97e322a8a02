pub mod Numbers
pub mod Groups
pub mod Ascending
pub mod inside
