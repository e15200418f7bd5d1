pub mod NumberWords
pub mod PlainWords
