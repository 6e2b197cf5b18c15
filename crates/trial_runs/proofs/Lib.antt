-- Laws and proofs of `trial_runs`.
pub mod RunLaws
pub mod TurnLaws
