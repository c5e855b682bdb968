pub mod Sides
pub mod Ties
