-- The definitions that the contracts of `driver_undo` cite beside those of `driver_core`.
pub mod Undos
pub mod Internal
