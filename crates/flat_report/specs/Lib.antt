pub mod Report
pub mod Reports
