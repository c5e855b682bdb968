pub mod ByTables
pub mod Clean
pub mod Groups
pub mod Looks
pub mod Tabled
