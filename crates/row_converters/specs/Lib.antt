-- The definitions that the contracts of `row_converters` cite; Steps only those of its private functions.
pub mod Convert
pub mod Internal
