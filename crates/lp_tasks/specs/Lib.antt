pub mod Passing
pub mod Openings
pub mod inside
