-- What code and proofs share and no public contract names.
pub mod Births
pub mod Marks
pub mod Sections
pub mod Spans
pub mod Tables
pub mod Cursors
pub mod Folds
pub mod Stages
