pub mod UniformLaws
pub mod HoldingLaws
pub mod AppendingLaws
