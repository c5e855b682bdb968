pub mod Lists
pub mod ExprNames
pub mod Parts
pub mod ShortNames
pub mod SoundValues
