pub mod Fixes
pub mod Questions
pub mod Verdicts
pub mod MasterRows
pub mod Rivals
