pub mod FirstLaws
pub mod ListLaws
pub mod NameLaws
pub mod Naming
pub mod Orders
pub mod TableLaws
