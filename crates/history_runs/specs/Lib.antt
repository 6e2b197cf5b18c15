-- The runner's state and calls in the terms of the fork-undo theorem.
pub mod View
pub mod Runs
