pub mod Filtered
pub mod Meanings
