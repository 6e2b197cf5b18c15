-- The laws of `undo_entries`.
pub mod EntryLaws
pub mod RoundTrip
