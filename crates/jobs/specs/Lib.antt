pub mod Ticks
pub mod Faults
pub mod Events
pub mod Choices
pub mod Tables
