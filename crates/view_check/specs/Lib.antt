pub mod Seen
pub mod CheckForm
