pub mod Law
pub mod Questions
