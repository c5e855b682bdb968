pub mod Keywords
pub mod Lexing
pub mod Quoting
pub mod Laying
