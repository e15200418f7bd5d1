pub mod Firsts
pub mod Repeats
pub mod Passing
pub mod Known
pub mod ValidCells
pub mod ValidRules
pub mod Joining
pub mod FewRows
