pub mod Replies
pub mod Probes
pub mod Leading
