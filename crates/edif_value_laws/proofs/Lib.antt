pub mod Lists
pub mod Stems
pub mod Parts
pub mod Sound
pub mod Files
