pub mod Codes
pub mod Arrays
pub mod Held
pub mod Slot
