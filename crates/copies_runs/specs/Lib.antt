-- The runner's state as a copy of the accounts (document 02, U13).
pub mod Runs
