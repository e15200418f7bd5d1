pub mod Listed
pub mod Groups
pub mod ByIds
