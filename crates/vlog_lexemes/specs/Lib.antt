pub mod Strings
pub mod Lexemes
pub mod Fronts
pub mod Faults
pub mod Texts
