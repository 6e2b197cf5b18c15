-- The definitions that the contracts of `trial_runs` cite.
pub mod Runs
