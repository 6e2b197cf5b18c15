-- The definitions that the contracts of `signed` cite.
pub mod Sign
pub mod Checked
