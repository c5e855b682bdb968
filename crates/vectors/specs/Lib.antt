pub mod Cells
pub mod Files
pub mod Numbers
pub mod Samples
