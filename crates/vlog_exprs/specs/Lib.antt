pub mod Calls
pub mod Expressions
pub mod Grammar
pub mod Known
pub mod Language
pub mod Reasons
