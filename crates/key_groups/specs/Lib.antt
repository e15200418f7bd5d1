pub mod Groups
pub mod Arranged
