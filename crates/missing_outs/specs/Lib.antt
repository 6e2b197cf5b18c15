-- The definitions that the contract of `missing_outs` cites.
pub mod Outs
pub mod Internal
