pub mod Commands
pub mod WordLaws
pub mod NumberLaws
pub mod ReadLaws
