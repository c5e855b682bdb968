pub mod Connected
pub mod Told
