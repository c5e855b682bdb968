pub mod Due
pub mod Kept
pub mod Live
pub mod Trees
