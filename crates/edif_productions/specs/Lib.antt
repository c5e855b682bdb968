pub mod Production
pub mod Header
pub mod Names
pub mod Notes
pub mod Nets
pub mod Libraries
pub mod File
