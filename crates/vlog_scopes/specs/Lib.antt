pub mod Distinct
pub mod Filled
pub mod Implicit
pub mod Instances
pub mod Ranged
pub mod Signals
