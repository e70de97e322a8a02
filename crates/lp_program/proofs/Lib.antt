pub mod Plays
pub mod Endings
