pub mod Names
pub mod Nodes
pub mod Shown
pub mod Verdict
pub mod Right
pub mod Made
