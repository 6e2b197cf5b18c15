-- Laws and proofs of `driver_batch`.
pub mod BatchLaws
