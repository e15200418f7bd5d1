pub mod ColumnSets
pub mod ColumnRows
pub mod Masters
pub mod Tables
pub mod Between
pub mod InStep
