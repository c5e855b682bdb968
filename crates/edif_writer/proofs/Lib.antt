pub mod Steps
pub mod Fronts
pub mod Escapes
pub mod Trees
pub mod Digits
pub mod Rows
