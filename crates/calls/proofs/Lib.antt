-- Laws and proofs of `calls`.
pub mod CallLaws
