-- The definitions that the contracts of `load_core` cite.
pub mod Draw
