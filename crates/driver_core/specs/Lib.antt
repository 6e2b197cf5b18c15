-- A driver's calls, their bytes, the journal of the accepted ones, and undoing to a mark.
pub mod Steps
pub mod Bytes
pub mod Apply
