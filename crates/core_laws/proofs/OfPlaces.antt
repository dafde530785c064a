pub mod Apart
pub mod Children
pub mod KeyLaws
pub mod Lines
pub mod SpotTests
pub mod Prefixes
