pub mod WordIds
pub mod Words
pub mod Firsts
pub mod Names
pub mod KeyWords
