pub mod Fits
pub mod Listed
pub mod Sides
pub mod Partner
pub mod Good
pub mod NoRefusal
pub mod Whole
