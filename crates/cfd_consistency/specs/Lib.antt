pub mod Consistent
pub mod Question
pub mod Answer
