-- Laws and proofs of `driver_calls`.
pub mod ReadLaws
