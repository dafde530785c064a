pub mod Tasks
pub mod Paints
pub mod Worlds
