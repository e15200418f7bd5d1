pub mod EachHasReply
pub mod Exported
pub mod SameRules
pub mod CountedReplies
