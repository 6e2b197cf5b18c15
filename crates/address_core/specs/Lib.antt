-- The definitions that the contracts of `address_writing`, `address_reading` and `address` cite: the address record of document 01.
pub mod Bytes
pub mod Writing
pub mod Reading
pub mod Loading
pub mod Internal
pub mod Answers
