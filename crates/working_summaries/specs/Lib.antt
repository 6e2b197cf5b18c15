-- Calls with a summary over a working set of the table.
pub mod Reads
pub mod Laws
