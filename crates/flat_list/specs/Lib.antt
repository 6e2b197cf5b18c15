-- The definitions that the contracts of `flat_list` cite.
pub mod Flat
