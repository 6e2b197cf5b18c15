-- The laws of `undo_pruning`.
pub mod PruneLaws
pub mod WindowLaws
