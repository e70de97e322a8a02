pub mod Comparison
pub mod Permissive
pub mod Text
pub mod inside
