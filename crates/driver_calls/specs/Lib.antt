-- The definitions that the contracts of `driver_calls` cite.
pub mod Reads
