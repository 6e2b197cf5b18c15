-- Laws and proofs of `runner`.
pub mod RunLaws
pub mod PieceLaws
