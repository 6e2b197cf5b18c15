-- The laws of a pop from an empty head.
pub mod RowLaws
