-- The definitions that the contracts of `fork_trials` cite.
pub mod Tries
pub mod Internal
