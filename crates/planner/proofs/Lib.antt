mod Shares
mod Windows
mod Plans
