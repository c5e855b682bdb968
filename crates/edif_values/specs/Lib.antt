pub mod Directions
pub mod Keywords
pub mod Names
pub mod Proper
pub mod Sizes
pub mod Values
