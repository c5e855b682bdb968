pub mod CellLaws
pub mod GoodSizes
pub mod Numbered
