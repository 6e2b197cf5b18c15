-- The definitions that the contracts of `runner_start` cite.
pub mod Start
