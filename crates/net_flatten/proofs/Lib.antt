pub mod Fits
pub mod Sums
pub mod UnitLaws
pub mod Whole
