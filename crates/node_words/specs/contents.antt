pub mod CellShapes
