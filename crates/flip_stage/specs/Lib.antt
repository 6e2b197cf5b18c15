-- The definitions that the contracts of `flip_stage` cite beside those of `buffer_core`.
pub mod Internal
