pub mod Returns
pub use Rattle.node_table.specs.TableStates
