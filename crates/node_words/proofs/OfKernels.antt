pub mod BitRuns
pub mod BoxBits
pub mod BallBits
pub mod NearBits
pub mod WindowBits
pub mod LeafLaws
