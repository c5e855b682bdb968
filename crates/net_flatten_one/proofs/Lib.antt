pub mod Orders
pub mod One
