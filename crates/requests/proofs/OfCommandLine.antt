pub mod Heads
pub mod Rows
pub mod Walking
pub mod Splitting
pub mod Defaults
pub mod Values
pub mod Matching
