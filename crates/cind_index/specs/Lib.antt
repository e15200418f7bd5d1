pub mod Entries
pub mod RowsHeld
pub mod KeysHeld
pub mod Totals
pub mod Orphans
pub mod Index
pub mod Laws
