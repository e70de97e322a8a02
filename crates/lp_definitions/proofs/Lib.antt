pub mod Quantifiers
pub mod Printed
