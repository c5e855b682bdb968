pub mod Cells
pub mod Modules
