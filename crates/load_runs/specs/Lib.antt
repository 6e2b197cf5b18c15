-- What is said of a load that the runner reads.
pub mod Reads
