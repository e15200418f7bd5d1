pub mod Runs
pub mod Marks
pub mod Moves
pub mod Starts
