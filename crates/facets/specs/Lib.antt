pub mod Shoelaces
pub mod Vertices
pub mod Corners
pub mod Drawn
pub mod Geometry
