pub mod Findings
pub mod Found
pub mod Groups
pub mod Lint
pub mod Lints
pub mod Roles
