pub mod Graph
pub mod Levels
pub mod Marks
pub mod Walks
pub mod WorkList
