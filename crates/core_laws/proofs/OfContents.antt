pub mod WorldBlocks
pub mod Multiples
pub mod MarkLaws
pub mod MarkReadings
