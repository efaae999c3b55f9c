mod Opened
mod Shares
mod Sequences
