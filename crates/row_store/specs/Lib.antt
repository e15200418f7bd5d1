pub mod Tuple
pub mod Store
pub mod Slots
pub mod Rows
pub mod Watch
pub mod Watches
