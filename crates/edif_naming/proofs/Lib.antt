pub mod LastLaws
pub mod NamingLaws
pub mod SoundLaws
