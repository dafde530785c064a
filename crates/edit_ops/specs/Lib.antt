pub mod Boxes
pub mod Balls
pub mod Partly
pub mod Clips
