-- The fork-undo theorem of a driver's batches, undos and flushes.
pub mod Driver
pub mod Internal
pub mod Operations
pub mod Journal
pub mod Spelling
pub mod Theorem
