pub mod EngineLemmas
pub mod Accept
pub mod Alone
