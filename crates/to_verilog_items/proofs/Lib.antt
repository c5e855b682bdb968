pub mod HeaderLaws
pub mod Loops
