-- What code and proofs share and no public contract names.
pub mod History
pub mod Levels
pub mod Publishers
pub mod Changes
pub mod Starts
