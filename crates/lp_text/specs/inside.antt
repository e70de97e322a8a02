-- What code and proofs share and no public contract names.
pub mod LineFaults
pub mod Cut
pub mod Parsers
pub mod QuickLines
pub mod Writing
pub mod Builders
pub mod Streams
