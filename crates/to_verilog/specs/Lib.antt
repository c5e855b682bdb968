pub mod Modules
pub mod Answers
