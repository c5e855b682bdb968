pub mod Finding
pub mod LinkLaws
pub mod Small
pub mod TableLaws
pub mod Turns
pub mod ViewLaws
