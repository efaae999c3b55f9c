pub mod Refusals
pub mod Plans
