-- The definitions that the contracts of `row_fronts` and `row_converters` cite.
pub mod Fronts
