-- A driver's steps, batches and undos over a working set of the segments table.
pub mod Beside
pub mod Laws
