pub mod Below
mod BothLaws
pub mod Clean
pub mod Differing
pub mod Firsts
pub mod FreeLaws
pub mod Grouping
pub mod ListLaws
pub mod LookLaws
pub mod Lookup
pub mod Reaching
pub mod TableLaws
