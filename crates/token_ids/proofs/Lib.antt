-- The laws that the proofs of `token_ids` cite.
pub mod ChunkLaws
