-- The definitions that the contracts of `ergo_index_trials` cite.
pub mod Trials
