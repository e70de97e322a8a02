-- What code and proofs share and no public contract names.
pub mod Words
pub mod Links
pub mod Tables
