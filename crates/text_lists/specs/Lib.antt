pub mod Limits
pub mod Names
pub mod Repeats
pub mod Firsts
pub mod Places
