pub mod Transition
pub mod OwnEvents
pub mod Events
pub mod Reading
pub mod Laws
pub mod Followed
pub mod Rows
