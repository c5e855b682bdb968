pub mod Lists
pub mod NewCells
pub mod Placing
pub mod Reaching
pub mod Partners
pub mod Ranking
pub mod Whole
