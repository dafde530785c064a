pub mod RootLaws
pub mod NumberLaws
pub mod OneReport
pub mod RowLaws
pub mod ListLaws
pub mod LevelLines
