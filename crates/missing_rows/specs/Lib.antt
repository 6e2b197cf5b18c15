-- The definitions that the contracts of `missing_rows` cite.
pub mod Missing
