-- The definitions that the contracts of `run_steps` cite.
pub mod Undoes
