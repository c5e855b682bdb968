pub mod Parts
pub mod Items
pub mod Readers
pub mod Texts
pub mod Rises
