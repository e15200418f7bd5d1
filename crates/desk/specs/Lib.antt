pub mod DeskReplies
pub mod OneHistory
