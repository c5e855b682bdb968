pub mod Counting
pub mod Identifiers
