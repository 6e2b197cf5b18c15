-- The definition that the contracts of `summary_lines` cite beside those of `summary_core`.
pub mod Internal
