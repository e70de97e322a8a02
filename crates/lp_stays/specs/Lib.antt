pub mod Invariant
pub mod Counts
pub mod inside
