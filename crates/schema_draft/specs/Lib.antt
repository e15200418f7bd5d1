pub mod Sheets
pub mod Columns
pub mod Drafts
pub mod DraftSchemas
