pub mod Runs
pub mod LastCounts
pub mod Statements
