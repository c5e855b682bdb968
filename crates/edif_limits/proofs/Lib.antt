pub mod Stops
pub mod Tokens
pub mod Law
