pub mod Cursors
pub mod Writing
