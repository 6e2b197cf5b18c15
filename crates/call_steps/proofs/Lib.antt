-- Laws and proofs of `call_steps`.
pub mod StateLaws
pub mod StepLaws
pub mod KeepLaws
