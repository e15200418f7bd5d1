pub mod Lookup
pub mod Puts
pub mod Transcripts
