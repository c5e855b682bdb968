pub mod Plain
pub mod Parts
