-- The definitions that the contracts of `ergo_index_outs` cite.
pub mod Outs
