pub mod Charts
pub mod ChartRange
pub mod Rasters
pub mod Drawings
pub mod DrawingRange
pub mod Surveys
