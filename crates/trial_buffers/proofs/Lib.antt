-- Laws and proofs of `trial_buffers`.
pub mod BufferLaws
