pub mod DrawLaws
pub mod StampLaws
pub mod TierLaws
pub mod WorldsMade
pub mod BitLaws
