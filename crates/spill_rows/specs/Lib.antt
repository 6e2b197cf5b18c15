-- The definitions that the contracts of `spill_rows` cite beside those of `buffer_core`.
pub mod Internal
pub mod Answers
