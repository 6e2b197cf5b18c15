-- The definitions that the contracts of the segment buffer's calls cite, in reading order.
pub mod Edition
pub mod Spills
pub mod Append
pub mod Pop
pub mod Flip
pub mod Rows
pub mod Tally
pub mod Page
pub mod Flush
pub mod Answers
