pub mod SlotLaws
pub mod Keeping
pub mod ShareLaws
pub mod LowerLaws
pub mod AddLaws
pub mod VersionLaws
pub mod UnderLaws
pub mod DoingLaws
pub mod MadeLaws
pub mod BeginLaws
mod Absent
pub mod Cells
mod BucketLaws
mod Empty
