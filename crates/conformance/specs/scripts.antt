pub mod Keeping
pub mod Sessions
pub mod Statements
