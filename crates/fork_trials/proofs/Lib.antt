-- Laws and proofs of `fork_trials`.
pub mod TryLaws
