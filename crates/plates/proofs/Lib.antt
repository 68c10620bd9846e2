pub mod Piles
pub mod Values
