pub mod Strings
pub mod Spelling
pub mod Language
pub mod Scan
pub mod Proper
pub mod Held
pub mod HeldForm
