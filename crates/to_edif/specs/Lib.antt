pub mod Cells
pub mod Files
pub mod Left
pub mod Settings
