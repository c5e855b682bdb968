pub mod Broken
pub mod Plain
pub mod Written
