pub mod Places
pub mod Owners
pub mod Partitions
pub mod Stretches
pub mod Responses
pub mod Findings
