-- The definitions that the contracts of `driver_changes` cite beside those of `driver_core`.
pub mod Internal
