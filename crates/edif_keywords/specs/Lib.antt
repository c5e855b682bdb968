pub mod Aliases
pub mod Calls
pub mod Grammar
pub mod Language
pub mod Reasons
pub mod Slots
