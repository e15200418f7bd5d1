pub mod FullTables
pub mod TableLoop
