pub mod Spelled
pub mod Names
pub mod Status
pub mod Nets
pub mod Library
pub mod Writable
pub mod Law
pub mod Kept
