pub mod Orders
pub mod Walking
pub mod Chosen
pub mod Grouped
pub mod Few
pub mod Classes
pub mod Whole
