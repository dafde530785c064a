pub mod Rising
pub mod Showing
pub mod Regions
pub mod Counting
pub mod Ends
pub mod Loads
