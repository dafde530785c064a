pub mod Slots
pub mod Rows
pub mod Coding
pub mod Words
pub mod Used
pub mod Tags
pub mod Changes
