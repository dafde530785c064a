pub mod Listing
pub mod Layers
pub mod Filling
pub mod Saved
pub mod Surface
pub mod BareLayers
pub mod Sides
