pub mod Firsts
pub mod Giving
pub mod Loops
pub mod SameNodes
