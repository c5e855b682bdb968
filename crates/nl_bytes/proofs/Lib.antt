pub mod Held
pub mod Uses
pub mod Known
pub mod Readers
pub mod Limited
pub mod Fronts
pub mod Taken
pub mod Tables
