-- The definitions that the contracts of `blake2b_core` and `blake2b` cite.
pub mod Blake2b
