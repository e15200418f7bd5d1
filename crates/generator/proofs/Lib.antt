pub mod Counted
pub mod Summaries
