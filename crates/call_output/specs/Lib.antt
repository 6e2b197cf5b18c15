-- The definitions that the contracts of `call_output` cite.
pub mod Told
