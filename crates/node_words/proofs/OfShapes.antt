pub mod ShapeLaws
pub mod ShowLaws
pub mod TreeLaws
pub mod TreeEqual
pub mod WeightLaws
pub mod BucketLaws
