pub mod Pieces
pub mod Forms
pub mod Going
pub mod Marking
pub mod Fits
