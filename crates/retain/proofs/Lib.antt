pub mod Merging
pub mod OneList
pub mod Lasting
mod Growing
