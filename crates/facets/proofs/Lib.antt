pub mod Balance
pub mod Bounds
pub mod Giving
pub mod Heights
pub mod Placing
pub mod Ranges
pub mod Signs
pub mod Weights
