pub mod Looking
pub mod Single
pub mod Wholly
