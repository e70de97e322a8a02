pub mod Births
pub mod FirstLegs
pub mod NoLater
pub mod FirstEnable
pub mod Order
pub mod Permissive
pub mod Texts
