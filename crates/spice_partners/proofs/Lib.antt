pub mod Lists
pub mod Local
pub mod Over
pub mod Paths
pub mod Plain
pub mod Same
pub mod Words
