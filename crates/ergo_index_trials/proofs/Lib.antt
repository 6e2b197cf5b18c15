-- The laws of `ergo_index_trials`.
pub mod TrialLaws
