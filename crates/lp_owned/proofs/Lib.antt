pub mod Used
pub mod Turns
pub mod Seating
pub mod Kept
pub mod Back
pub mod Whole
