-- The definitions that the contracts of `run_answers` cite.
pub mod Answers
