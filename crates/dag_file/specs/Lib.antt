pub mod Places
pub mod Rules
pub mod Trees
pub mod Writes
pub mod Layers
pub mod Reads
pub mod Kept
pub mod Lists
