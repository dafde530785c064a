pub mod OfCommandLine
pub mod OfWords
