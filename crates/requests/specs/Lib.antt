pub mod command_line
pub mod Orders
pub mod ScriptNames
pub mod Questions
pub mod Words
