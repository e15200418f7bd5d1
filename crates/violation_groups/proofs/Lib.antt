pub mod IdsAt
pub mod Listing
pub mod Grouping
pub mod Steps
pub mod Totals
pub mod NoneLost
pub mod Lines
