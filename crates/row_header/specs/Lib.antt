-- The definition that a contract of `row_header` cites beside those of `buffer_core`.
pub mod Internal
