pub mod Drawings
pub mod Stamps
pub mod Tiers
pub use Rattle.edit_walk.specs.Roots
pub use Rattle.edit_walk.specs.cells.Worlds
