pub mod Partners
pub mod Example
