pub mod DigestedLaws
pub mod Lists
pub mod LongLaws
pub mod NameDigests
pub mod RepeatLaws
pub mod ShortLaws
