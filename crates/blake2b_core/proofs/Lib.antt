-- The laws of `blake2b_core`: the lengths of digests, which callers cite, and the steps of the proofs.
pub mod DigestLaws
pub mod BlockLaws
