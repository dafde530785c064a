pub mod worlds
