-- Laws and proofs of `run_checks`.
pub mod CheckLaws
pub mod ReadyLaws
