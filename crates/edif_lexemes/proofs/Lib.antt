pub mod Moves
pub mod Strings
pub mod Runs
pub mod Shapes
pub mod Longest
pub mod Tokens
pub mod Faults
pub mod Texts
