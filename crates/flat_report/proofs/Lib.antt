pub mod GroupTexts
pub mod OneReport
pub mod PathTexts
pub mod TerminalFacts
