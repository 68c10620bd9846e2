pub mod Entries
pub mod Layering
pub mod Stocking
pub mod Topping
