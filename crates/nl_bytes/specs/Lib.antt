pub mod Classes
pub mod Halts
pub mod Bytes
pub mod Flaws
pub mod Tokens
