-- The definitions that the contracts of `driver_steps` cite.
pub mod Moves
