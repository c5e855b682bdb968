pub mod Lists
pub mod ShownOnce
pub mod Showing
pub mod Tabling
pub mod Tied
