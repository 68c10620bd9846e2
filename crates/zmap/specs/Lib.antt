pub mod Limits
pub mod Contacts
pub mod Maps
pub mod Faults
pub mod Texts
