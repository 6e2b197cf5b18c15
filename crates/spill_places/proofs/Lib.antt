-- The laws of `spill_places`.
pub mod LocateLaws
