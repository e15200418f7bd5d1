pub mod Deps
pub mod FoundText
pub mod Minimal
pub mod ReadAgain
pub mod Valid
