pub mod Beginnings
pub mod Grammar
pub mod Productions
pub mod Starts
pub mod States
pub mod Text
pub mod AnyLength
