-- The definitions that the contracts of `row_edition` cite beside those of `buffer_core`.
pub mod Internal
pub mod Answers
