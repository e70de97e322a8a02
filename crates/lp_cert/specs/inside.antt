-- What code and proofs share and no public contract names.
pub mod Bare
pub mod OwnEffects
pub mod Chains
pub mod StepLines
pub mod Heads
pub mod Invariant
pub mod Kept
pub mod LegRows
pub mod Parts
pub mod Waiters
