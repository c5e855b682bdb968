pub mod Classes
pub mod Constants
pub mod Numbers
pub mod Plans
