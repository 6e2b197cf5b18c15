-- Laws and proofs of `call_input`.
pub mod NextLaws
pub mod ReadLaws
