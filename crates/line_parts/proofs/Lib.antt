-- The laws of `line_parts`.
pub mod PartLaws
