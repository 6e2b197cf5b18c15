-- The definitions that the contracts of `append_core` cite beside those of `buffer_core`.
pub mod Internal
