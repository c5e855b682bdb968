pub mod Names
pub mod Same
pub mod Sizes
pub mod Spelled
pub mod Told
