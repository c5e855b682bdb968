pub mod Candidates
pub mod Keys
pub mod Refusals
pub mod Tables
