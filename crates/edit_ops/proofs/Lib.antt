pub mod BoxLaws
pub mod BallLaws
pub mod PartlyLaws
pub mod ClipLaws
