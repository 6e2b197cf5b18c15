-- The definitions that the contracts of `trial_steps` cite.
pub mod Held
