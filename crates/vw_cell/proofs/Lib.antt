pub mod Powers
pub mod Squares
pub mod Halves
pub mod Overlaps
pub mod Words
pub mod Masks
pub mod Ranges
