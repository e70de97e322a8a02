pub mod Faults
pub mod Dealt
mod Players
mod Counting
mod Sent
