pub mod Sides
pub mod ShortWords
