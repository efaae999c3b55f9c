pub mod Events
pub mod Choices
pub mod Requests
pub mod Ticks
