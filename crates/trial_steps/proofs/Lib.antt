-- Laws and proofs of `trial_steps`.
pub mod StepLaws
