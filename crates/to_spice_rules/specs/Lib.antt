pub mod Answers
pub mod Connections
pub mod Found
pub mod Names
pub mod PortWords
pub mod Sets
