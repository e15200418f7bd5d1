pub mod Statuses
pub mod ListForm
pub mod RowForm
