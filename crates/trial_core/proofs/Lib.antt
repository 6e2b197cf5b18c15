-- Values of `trial_core`.
pub mod SmallTrials
