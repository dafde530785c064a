pub mod OfRegions
pub mod OfScenes
