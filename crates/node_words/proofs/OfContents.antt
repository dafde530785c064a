pub mod LeafBits
pub mod SameCells
pub mod OctantShapes
pub mod CellShapeLaws
pub mod FullShapes
