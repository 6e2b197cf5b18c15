-- Laws and proofs of `driver_changes`.
pub mod TokenLaws
