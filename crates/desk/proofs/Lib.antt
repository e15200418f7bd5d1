pub mod EachHasReply
pub mod CountedReplies
pub mod OneHistory
