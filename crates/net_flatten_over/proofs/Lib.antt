pub mod Copied
pub mod Going
pub mod Values
