pub mod Bounds
pub mod Status
pub mod Nets
pub mod Library
pub mod Law
