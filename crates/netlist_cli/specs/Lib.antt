pub mod Statuses
pub mod Tools
pub mod Lines
pub mod Generated
pub mod Outcomes
pub mod Meanings
pub mod Runs
pub mod Designs
