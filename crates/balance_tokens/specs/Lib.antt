-- The definitions that the contracts of `token_ids`, `token_changes` and the crates above them cite.
pub mod Tokens
pub mod Answers
