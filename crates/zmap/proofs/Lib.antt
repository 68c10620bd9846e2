pub mod ContactOrder
pub mod Greatest
pub mod HeightTest
pub mod Members
pub mod Places
