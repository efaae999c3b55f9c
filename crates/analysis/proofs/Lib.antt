pub mod Demands
pub mod Filling
pub mod Growing
pub mod Placing
pub mod Tried
pub mod Responding
pub mod Verdicts
pub mod Options
