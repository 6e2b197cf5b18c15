-- The definitions that the contracts of `vlq_positions` and `vlq_reader` cite.
pub mod Positions
pub mod Answers
