pub mod Marking
pub mod Library
pub mod Reaching
