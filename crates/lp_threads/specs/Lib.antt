pub mod Codes
pub mod Faults
pub mod Plays
pub mod inside
