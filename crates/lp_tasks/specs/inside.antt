-- What code and proofs share and no public contract names.
pub mod Table
pub mod Slots
pub mod Deep
pub mod OwnChecks
