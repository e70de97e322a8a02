-- What code and proofs share and no public contract names.
pub mod Moves
pub mod Births
pub mod Blames
pub mod Invariant
pub mod ScanSteps
pub mod FirstRefusals
pub mod Turning
