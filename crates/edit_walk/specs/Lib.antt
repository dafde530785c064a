pub mod Edits
pub mod Memos
pub mod Octants
pub mod Outcomes
pub mod Walks
pub mod cells
pub mod blocks
pub use Rattle.node_words.specs.descent.Roots
