pub mod Steps
pub mod Literals
pub mod Strings
pub mod Expressions
pub mod Names
