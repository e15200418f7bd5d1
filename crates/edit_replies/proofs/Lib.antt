pub mod Accepted
pub mod FixReplies
pub mod Cells
pub mod RowFound
pub mod Names
pub mod Told
pub mod VouchedKept
