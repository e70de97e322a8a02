pub mod Words
pub mod Names
pub mod Pages
pub mod Readers
pub mod Blanks
pub mod inside
