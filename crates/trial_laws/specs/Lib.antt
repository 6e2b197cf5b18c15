-- The promise of `trial_laws`.
pub mod Enough
