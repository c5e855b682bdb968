pub mod FlatDesign
pub mod Joined
pub mod Rules
pub mod SameFlat
