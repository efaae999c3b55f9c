pub mod Commands
pub mod Decode
pub mod Faults
pub mod FirstFault
pub mod Loading
pub mod RoundTrip
pub mod Text
