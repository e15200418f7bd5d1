pub mod CaseTree
pub mod Verdict
pub mod Walk
