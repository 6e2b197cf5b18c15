-- The laws of `ergo_index_outs`.
pub mod OutLaws
