-- The definitions that the contracts of `pop_calls` cite beside those of `buffer_core`.
pub mod Answers
