pub mod RowLaws
pub mod AsideLaws
pub mod JoinLaws
pub mod ReachLaws
pub mod FreedLaws
