-- The fork-undo theorem of a driver over a working set of its table.
pub mod Shared
pub mod Theorem
