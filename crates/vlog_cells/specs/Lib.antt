pub mod Groups
pub mod Instances
pub mod Nets
pub mod Parts
pub mod Ports
