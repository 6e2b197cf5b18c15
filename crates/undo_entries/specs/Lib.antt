-- The definitions that the contracts of `undo_entries` cite.
pub mod Entry
pub mod Answers
