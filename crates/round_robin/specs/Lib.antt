pub mod Turns
pub mod EqualTurns
