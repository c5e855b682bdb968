pub mod CellLaws
pub mod FileLaws
pub mod Left
pub mod Named
