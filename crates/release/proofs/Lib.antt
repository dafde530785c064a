pub mod Lost
pub mod ReturnLaws
pub mod KeepLaws
