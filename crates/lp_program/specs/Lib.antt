pub mod Faults
pub mod Performed
