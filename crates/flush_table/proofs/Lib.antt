-- The laws of the table of a flush.
pub mod TableLaws
