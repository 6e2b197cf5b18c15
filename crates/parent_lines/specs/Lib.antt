-- The definitions that the contracts of `parent_lines` cite.
pub mod Parents
