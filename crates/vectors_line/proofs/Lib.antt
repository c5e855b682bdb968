pub mod Again
pub mod Counting
pub mod Doubling
pub mod Generated
pub mod Parts
pub mod Whole
