pub mod Folds
pub mod inside
