pub mod TwoTuples
pub mod Asked
pub mod Heard
pub mod Main
pub mod Theorems
pub mod WellFormed
pub mod Questions
