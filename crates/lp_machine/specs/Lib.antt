pub mod Machine
pub mod Steps
pub mod Table
pub mod inside
