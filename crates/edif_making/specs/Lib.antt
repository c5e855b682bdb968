pub mod CellPlans
pub mod Contents
pub mod Members
pub mod Nets
pub mod Whole
