pub mod Numbers
pub mod Reports
pub mod Roots
pub mod Statements
