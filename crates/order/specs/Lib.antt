pub mod Choices
pub mod DeadlineKeys
