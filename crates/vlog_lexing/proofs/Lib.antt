pub mod Scanning
pub mod Names
pub mod Numbers
pub mod Literals
pub mod Strings
pub mod Laying
pub mod Limits
