pub mod Sorting
pub mod GroupFacts
pub mod Renaming
pub mod Members
pub mod Arranging
pub mod Totals
