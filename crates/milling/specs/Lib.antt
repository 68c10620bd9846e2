pub mod Calls
pub mod Checks
pub mod Cuts
pub mod Losses
pub mod Scans
