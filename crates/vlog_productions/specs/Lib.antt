pub mod Production
pub mod Declarations
pub mod Items
pub mod Modules
