pub mod WindowLaws
pub mod CopyLaws
pub mod CopyBits
pub mod StartLaws
pub mod StepLaws
pub mod SourceLaws
