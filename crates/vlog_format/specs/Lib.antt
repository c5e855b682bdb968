pub mod Texts
pub mod Formats
pub mod Pieces
