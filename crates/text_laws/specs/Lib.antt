pub mod loads
pub mod regions
pub mod scenes
