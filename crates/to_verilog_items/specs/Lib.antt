pub mod Assigns
pub mod Exprs
pub mod Header
pub mod Instances
