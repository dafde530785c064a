pub mod Steps
pub mod RunLaws
