-- The balances of the fork-undo theorem.
pub mod Calls
