pub mod GivenLaws
pub mod MadeLaws
pub mod NameLaws
pub mod WiringLaws
