pub mod Lines
pub mod Numbers
pub mod Endings
pub mod Finishing
pub mod Statuses
pub mod Verdicts
pub mod Promises
