-- The definitions that the contracts of `segment` cite, beside those of `segment_core`.
pub mod Calls
