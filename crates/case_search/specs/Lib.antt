pub mod Answer
pub mod Enough
pub mod Guards
pub mod Model
pub mod Places
pub mod Step
