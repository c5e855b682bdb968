pub mod Clear
pub mod Lists
pub mod Live
pub mod Ordered
pub mod Words
