pub mod Laws
pub mod Weigh
pub mod Scan
pub mod Boot
pub mod Blames
pub mod LastScan
pub mod inside
