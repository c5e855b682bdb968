pub mod Answers
pub mod Most
pub mod TabledFile
pub mod Walk
