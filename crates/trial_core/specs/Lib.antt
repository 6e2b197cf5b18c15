-- The definitions that the contracts of `trial_core` cite.
pub mod Trial
