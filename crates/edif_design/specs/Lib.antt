pub mod CellRules
pub mod Design
pub mod FileRules
pub mod Parts
pub mod Reach
pub mod References
pub mod Tables
pub mod Views
