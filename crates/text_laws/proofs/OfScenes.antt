pub mod ReadStamps
pub mod TurnsBack
pub mod Unions
pub mod Built
