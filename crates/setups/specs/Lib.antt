pub mod Clamps
pub mod Layers
pub mod LayerHeight
pub mod Stocks
pub mod StockRange
pub mod Tables
pub mod Surfaces
pub mod SurfaceRange
