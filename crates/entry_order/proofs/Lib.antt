-- Laws and proofs of `entry_order`.
pub mod CappedLaws
