pub mod Paths
pub mod Words
pub mod Regions
pub mod Rows
pub mod Models
pub use Rattle.extract.specs.Saved
