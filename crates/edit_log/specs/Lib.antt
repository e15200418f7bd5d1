pub mod Journal
pub mod Log
