pub mod States
pub mod Calls
pub mod Starts
pub mod Sealing
