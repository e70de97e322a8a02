-- What code and proofs share and no public contract names.
pub mod Recording
pub mod GroupLists
