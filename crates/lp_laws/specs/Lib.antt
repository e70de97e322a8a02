pub mod Laws
pub mod CertLaws
pub mod Blamed
