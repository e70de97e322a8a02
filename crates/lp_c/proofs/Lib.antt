pub mod Parts
pub mod SlotSteps
pub mod Listed
pub mod Flat
