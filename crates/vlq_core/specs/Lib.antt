-- The definitions that the contracts of `vlq_reading`, `vlq_writing` and the crates above them cite: coded numbers of document 01, "Coded numbers".
pub mod Zigzag
pub mod Groups
pub mod Reading
pub mod Writing
pub mod Answers
