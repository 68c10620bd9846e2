pub mod Parsers
pub mod Records
pub mod Items
pub mod Kinds
pub mod Sections
pub mod Jobs
pub mod Encodings
pub mod Texts
