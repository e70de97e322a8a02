pub mod Asked
pub mod inside
