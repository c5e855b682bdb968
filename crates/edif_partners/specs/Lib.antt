pub mod Files
pub mod Placed
