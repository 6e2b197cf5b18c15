-- The definitions that the contracts of `records`, `distinct_keys`, `record_changes` and `record_hints` cite.
pub mod Records
pub mod Find
pub mod Changes
pub mod Checks
