-- The laws of `call_lines`.
pub mod LineLaws
