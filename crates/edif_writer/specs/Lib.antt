pub mod Strings
pub mod Layout
pub mod Forms
pub mod Starts
