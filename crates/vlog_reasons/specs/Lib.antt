pub mod Context
pub mod Rows
pub mod FirstFault
