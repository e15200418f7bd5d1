mod Statuses
mod FoundLines
