pub mod Bounds
pub mod Marking
pub mod Gathering
pub mod Grouping
pub mod Coming
pub mod Sound
pub mod Every
