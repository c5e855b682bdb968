pub mod Combining
pub mod WordTexts
pub mod HeaderTexts
pub mod ConnectionTexts
pub mod ItemTexts
pub mod ModuleTexts
