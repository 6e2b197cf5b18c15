-- The definition that the contracts of `pop_row` and `pop_core` cite beside those of `buffer_core`.
pub mod Internal
