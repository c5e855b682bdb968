pub mod Lists
pub mod Clean
pub mod Ranges
pub mod Parts
pub mod Designs
