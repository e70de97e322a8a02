pub mod Rules
pub mod Row
pub mod inside
pub mod Printed
