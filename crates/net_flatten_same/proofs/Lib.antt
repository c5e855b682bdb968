pub mod Connection
pub mod Ends
pub mod Flattened
pub mod Leaves
pub mod Lists
pub mod Same
