pub mod Existing
pub mod Ending
pub mod Refusing
pub mod GoingOn
pub mod Agreeing
pub mod Opening
