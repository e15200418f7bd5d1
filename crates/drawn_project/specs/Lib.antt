pub mod Draws
pub mod Edits
pub mod Project
