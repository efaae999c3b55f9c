pub mod Granted
pub mod Cycles
pub mod Lists
pub mod Owned
