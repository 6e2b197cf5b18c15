-- Laws and proofs of `call_output`.
pub mod LineRoom
