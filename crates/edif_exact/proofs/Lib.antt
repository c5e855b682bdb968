pub mod Wholly
pub mod Single
