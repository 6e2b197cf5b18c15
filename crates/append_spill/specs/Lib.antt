-- The definitions that the contracts of `append_spill` cite beside those of `buffer_core`.
pub mod Internal
