pub mod Chosen
pub mod Laid
pub mod Loops
pub mod Meaning
pub mod OneLint
pub mod Several
pub mod Sizes
pub mod Whole
