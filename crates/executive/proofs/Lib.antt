mod Tables
mod Calls
mod Runner
mod Chains
mod Sealing
