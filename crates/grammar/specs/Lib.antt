pub mod Part
pub mod Texts
pub mod Reading
pub mod Clear
pub mod Faults
pub mod Whole
pub mod Exact
