pub mod Fixing
pub mod EditReplies
pub mod Telling
