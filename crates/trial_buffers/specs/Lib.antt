-- The definitions that the contracts of `trial_buffers` cite.
pub mod Sizes
