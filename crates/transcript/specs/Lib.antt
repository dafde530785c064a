pub mod Lines
pub mod Bounds
pub mod Rows
pub mod Refusals
pub mod Moments
