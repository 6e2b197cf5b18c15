-- The laws of lines written and read.
pub mod LineLaws
