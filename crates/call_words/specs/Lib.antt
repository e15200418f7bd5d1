pub mod ReadWords
pub mod Words
