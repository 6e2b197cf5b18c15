-- The definitions that the contracts of `undo_pruning` cite.
pub mod Prune
pub mod Answers
