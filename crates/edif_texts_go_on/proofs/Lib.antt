pub mod AlikeParts
pub mod AlikeNames
pub mod AlikeNets
pub mod AlikeFile
pub mod Spelled
pub mod Again
pub mod Splits
pub mod Law
