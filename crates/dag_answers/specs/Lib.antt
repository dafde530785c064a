pub mod Questions
pub mod Looks
pub mod OfVersions
pub mod Legality
pub mod Histories
pub mod Replays
pub use Rattle.store_run.specs.Replaying
pub use Rattle.store_run.specs.Kept
