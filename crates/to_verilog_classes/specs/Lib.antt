pub mod Groups
pub mod Roots
