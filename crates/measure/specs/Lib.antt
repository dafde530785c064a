pub mod Leaves
pub mod Tallies
pub mod Subjects
pub mod Exposed
pub mod Faces
pub mod Widening
pub mod Pruning
pub mod Changes
