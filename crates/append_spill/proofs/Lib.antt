-- The laws of a spill.
pub mod SpillLaws
