pub mod Partners
pub mod Places
pub mod Plain
pub mod SamePins
pub mod SpiceDesign
