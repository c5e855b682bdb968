pub mod Limits
pub mod Rising
pub mod Looked
pub mod Law
