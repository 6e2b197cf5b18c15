-- Laws and proofs of `end_lines`.
pub mod EndRoom
