pub mod Behind
pub mod Rounds
pub mod Exits
pub mod PieceLaws
