pub mod CallerLaws
mod SetLaws
