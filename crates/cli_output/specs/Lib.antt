pub mod Each
pub mod Fetching
pub mod Output
pub mod Refusals
pub mod RuleFiles
pub mod Statuses
pub mod TableFiles
