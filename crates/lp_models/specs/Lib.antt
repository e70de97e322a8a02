pub mod Models
pub mod inside
