-- The definitions that the contracts of `call_lines` cite.
pub mod Lines
