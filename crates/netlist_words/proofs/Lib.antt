pub mod Taken
pub mod Dots
pub mod Choices
pub mod Decimals
pub mod OneCommand
