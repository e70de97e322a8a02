-- What code and proofs share and no public contract names.
pub mod Dealt
pub mod Players
