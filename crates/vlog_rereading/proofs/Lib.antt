pub mod Fronts
pub mod Expressions
pub mod Items
pub mod Modules
pub mod Writable
pub mod Law
