pub mod TakenBack
pub mod LastLive
pub mod Standing
pub mod RowsEdited
pub mod EntryMade
pub mod DeskStands
