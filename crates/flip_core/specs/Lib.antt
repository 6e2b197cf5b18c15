-- The definitions that the contracts of `flip_core` cite beside those of `buffer_core` and `flip_stage`.
pub mod Internal
