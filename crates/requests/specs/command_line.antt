pub mod Parts
pub mod Texts
pub mod Steps
pub mod Command
