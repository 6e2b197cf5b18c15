-- The laws of the row that a spill writes.
pub mod RowLaws
