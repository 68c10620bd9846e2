pub mod Charting
pub mod Summits
pub mod Surveying
