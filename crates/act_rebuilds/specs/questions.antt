pub mod AnswersByRoots
