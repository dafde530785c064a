pub mod Uniform
pub mod Holding
