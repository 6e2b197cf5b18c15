-- The laws of reading a spill's row and of checking it.
pub mod SpillLaws
pub mod CheckedLaws
