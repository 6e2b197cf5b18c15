-- The laws of a row merged back.
pub mod MergeLaws
