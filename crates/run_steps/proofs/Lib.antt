-- Laws and proofs of `run_steps`.
pub mod StepLaws
