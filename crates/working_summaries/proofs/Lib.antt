-- The laws of calls with a summary over a working set.
pub mod LineOutcomes
pub mod LineReads
pub mod WorkingSummaries
