-- The definitions that the contracts of `driver_journal` cite beside those of `driver_core`.
pub mod Journals
