-- The definitions that the contracts of `batch_answers` cite.
pub mod Answers
