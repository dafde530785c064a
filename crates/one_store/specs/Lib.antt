pub mod Known
pub mod Steps
pub mod Calls
pub mod notes
pub mod entries
pub use Rattle.core_laws.specs.places.WordIds
pub use Rattle.core_laws.specs.contents.Versions
