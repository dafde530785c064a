pub mod StatusLaws
pub mod ComingLaws
pub mod VerdictLaws
pub mod Holding
pub mod Lacking
