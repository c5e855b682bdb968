pub mod Bits
pub mod Fits
pub mod Making
pub mod Order
pub mod Whole
