pub mod FlatFaults
pub mod FlatSums
pub mod Groups
pub mod Kinds
pub mod TerminalNumbers
pub mod Terminals
pub mod Ways
