pub mod Lexing
pub mod Tokens
