pub mod Alike
pub mod Living
