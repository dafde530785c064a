pub mod WalkLaws
pub mod MemoLaws
pub mod OctantLaws
pub mod OutcomeLaws
pub mod OfCells
pub mod OfBlocks
