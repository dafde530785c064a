pub mod OneChild
pub mod Roots
