-- The laws of looking for the row that is missing.
pub mod SeekLaws
