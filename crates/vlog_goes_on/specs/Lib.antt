pub mod GoesOn
pub mod Onward
