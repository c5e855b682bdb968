pub mod Spelling
pub mod Layout
pub mod Forms
pub mod Pending
