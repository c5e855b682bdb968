pub mod Places
pub mod Wired
