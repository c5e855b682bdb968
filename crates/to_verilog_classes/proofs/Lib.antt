pub mod GroupLaws
pub mod KeyLaws
pub mod NodeLaws
pub mod RootLaws
pub mod Rooted
