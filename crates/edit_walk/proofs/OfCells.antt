pub mod PaintLaws
pub mod WorldLaws
pub mod PartLaws
pub mod WorldPaints
