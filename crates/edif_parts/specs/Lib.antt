pub mod Added
pub mod Instances
