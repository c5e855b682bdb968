pub mod Kept
pub mod Live
pub mod Parts
