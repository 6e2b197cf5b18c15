-- The definitions that the contracts of `driver_turns` cite beside those of `driver_core`.
pub mod Batch
pub mod Internal
