pub mod Patches
pub mod Aimed
pub mod inside
