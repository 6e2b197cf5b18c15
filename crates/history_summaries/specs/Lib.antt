-- The index with a summary of each parent's box spills, its machine, and what is promised of it (document 02, U8).
pub mod Summaries
pub mod Promises
