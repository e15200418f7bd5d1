pub mod Pieces
pub mod Fates
pub mod Rounds
pub mod Cover
pub mod CoverText
