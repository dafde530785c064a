pub mod BlockLaws
pub mod LookLaws
pub mod LandLaws
pub mod PartLaws
pub mod Halving
pub mod Octants
pub mod AnswerLaws
