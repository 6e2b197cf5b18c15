-- The definitions that the contract of `merge` cites beside those of `buffer_core`.
pub mod Internal
