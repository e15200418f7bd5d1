pub mod Ends
pub mod Pairs
mod BehindFirst
