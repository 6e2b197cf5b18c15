-- The laws of `parent_lines`.
pub mod ParentLaws
