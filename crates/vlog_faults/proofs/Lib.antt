pub mod Judges
pub mod Productions
pub mod ItemProductions
pub mod FileJudges
pub mod FileProductions
pub mod Law
pub mod Either
