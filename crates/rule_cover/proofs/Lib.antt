pub mod Satisfied
pub mod Covers
pub mod PieceFacts
pub mod Turns
