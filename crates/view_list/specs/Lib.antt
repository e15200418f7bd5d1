pub mod Pieces
pub mod Groups
pub mod Listed
pub mod Rows
