pub mod AnswerLaws
pub mod TextLaws
pub mod ReadingLaws
pub mod MomentLaws
