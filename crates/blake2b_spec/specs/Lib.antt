-- BLAKE2b of RFC 7693, as the contracts of `blake2b_compression`, `blake2b_core` and `blake2b` cite it.
pub mod Blake2b
