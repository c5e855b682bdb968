pub mod Parts
pub mod Formats
