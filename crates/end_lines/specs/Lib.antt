-- The definitions that the contracts of `end_lines` cite.
pub mod EndLines
