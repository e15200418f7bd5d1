pub mod Numbers
pub mod NumberLists
