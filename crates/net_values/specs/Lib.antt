pub mod Sound
pub mod ShortNames
