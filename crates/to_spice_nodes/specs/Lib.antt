pub mod Naming
pub mod Nodes
pub mod Table
