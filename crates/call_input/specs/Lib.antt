-- The definitions that the contracts of `call_input` cite.
pub mod Counts
pub mod Place
pub mod Waiting
