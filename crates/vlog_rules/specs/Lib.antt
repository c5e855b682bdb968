pub mod Defparams
pub mod Kinds
pub mod NameDigests
pub mod Redeclared
pub mod Seen
pub mod Wide
pub mod WrongUses
