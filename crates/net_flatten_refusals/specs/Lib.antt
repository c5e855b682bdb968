pub mod Digests
pub mod LongNames
pub mod Named
pub mod PathDigests
