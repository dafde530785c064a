pub mod Draws
pub mod Loads
pub mod Regions
pub mod RegionLaws
