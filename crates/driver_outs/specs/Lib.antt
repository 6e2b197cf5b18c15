-- The definitions that the contracts of `driver_outs` cite.
pub mod Outs
