-- The definitions that the contracts of `vlq_reader` cite.
pub mod Reader
