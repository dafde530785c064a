pub mod Roots
pub mod Parts
pub mod Looks
pub mod Answers
pub mod Landings
