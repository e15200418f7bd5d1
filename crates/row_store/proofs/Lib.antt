pub mod KeyFacts
pub mod SlotRows
pub mod RowsKept
pub mod Walk
pub mod Zips
pub mod TakenBack
pub mod InStep
