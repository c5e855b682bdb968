pub mod Classes
pub mod Ends
pub mod Flood
pub mod Leaves
pub mod NameTables
pub mod Names
pub mod Neighbours
pub mod Parts
