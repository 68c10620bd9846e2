pub mod Rounds
pub mod Seen
pub mod Sums
pub mod Places
pub mod Cutting
pub mod Forming
pub mod Centre
