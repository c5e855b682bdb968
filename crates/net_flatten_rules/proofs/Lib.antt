pub mod JoinedLaws
pub mod MarkLaws
