-- The definitions that the contracts of `balance` cite.
pub mod Tokens
pub mod Boxes
pub mod Parts
