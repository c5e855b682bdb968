pub mod Closing
pub mod Levelling
pub mod ListLaws
pub mod MarkLaws
pub mod OrderLaws
pub mod WalkLaws
pub mod Walking
pub mod WorkLaws
