pub mod Lists
pub mod Instances
pub mod Values
pub mod Names
pub mod Parts
pub mod Files
