pub mod Rows
pub mod CertRows
pub mod HeadlineRows
pub mod FaultRows
