pub mod CellLaws
pub mod FlatLaws
pub mod InstanceLaws
pub mod NetLaws
pub mod OrderLaws
pub mod PlaceLaws
pub mod SizeLaws
