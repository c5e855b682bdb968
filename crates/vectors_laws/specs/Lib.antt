pub mod Designs
pub mod Leaves
