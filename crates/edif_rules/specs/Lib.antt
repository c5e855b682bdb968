pub mod RefRefusals
pub mod Idents
pub mod Lists
pub mod Scopes
pub mod Spots
pub mod Walks
