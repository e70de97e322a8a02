pub mod Entries
pub mod Journals
pub mod Logs
pub mod Seats
pub mod Turned
pub mod Audits
pub mod inside
