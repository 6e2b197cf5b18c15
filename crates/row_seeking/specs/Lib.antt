-- The definitions that the contracts of `row_seeking` cite.
pub mod Seeking
pub mod Internal
