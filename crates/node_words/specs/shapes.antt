pub mod Shape
pub mod ShapeCode
pub mod Buckets
pub mod Tree
pub mod TreeCode
pub mod Weights
