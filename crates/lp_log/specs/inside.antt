-- What code and proofs share and no public contract names.
pub mod Cursors
pub mod Quiet
