-- The definitions that the contracts of `spill_places` cite.
pub mod Inspection
