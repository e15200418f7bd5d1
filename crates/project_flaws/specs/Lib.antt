pub mod Rows
pub mod Cited
pub mod ValueVerdicts
pub mod Verdicts
pub mod Told
