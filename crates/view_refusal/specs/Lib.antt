pub mod Hints
pub mod Misfits
pub mod RowCounts
pub mod Full
pub mod Counted
pub mod Showing
pub mod Shown
