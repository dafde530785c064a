mod LeafCounts
mod LeafParts
mod TallyLaws
mod EightLeaves
pub mod SubjectLaws
mod AxisLaws
pub mod BareLaws
pub mod BareLeaves
pub mod FaceLaws
pub mod WideningLaws
mod PruningLaws
mod ChangeLaws
pub mod WholeLaws
