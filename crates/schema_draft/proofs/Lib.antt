mod Steps
mod Numbers
mod DraftReads
