pub mod Implied
pub mod Question
pub mod Answers
