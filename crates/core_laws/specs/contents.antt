pub mod Aligned
pub mod Contents
pub mod Versions
pub mod MarkLists
pub mod Statements
