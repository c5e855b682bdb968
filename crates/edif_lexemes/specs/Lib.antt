pub mod Strings
pub mod Lexemes
pub mod Faults
pub mod Texts
