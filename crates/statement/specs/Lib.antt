-- The definitions that the contracts of `statement` cite.
pub mod Statement
