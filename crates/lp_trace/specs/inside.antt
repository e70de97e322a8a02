-- What code and proofs share and no public contract names.
pub mod Counting
pub mod KeptLines
pub mod Busy
pub mod Claims
pub mod Held
pub mod Rests
