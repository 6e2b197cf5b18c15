-- A driver over a working set in the terms of the fork-undo theorem.
pub mod PairLaws
pub mod MoveLaws
