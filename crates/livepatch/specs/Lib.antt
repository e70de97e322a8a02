pub mod Simulated
pub mod Named
pub mod inside
