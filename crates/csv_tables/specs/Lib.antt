pub mod Records
pub mod TableFiles
pub mod Faults
pub mod Columns
pub mod WrittenFiles
pub mod Taken
