-- The definitions that the contracts of `load` cite.
pub mod Bytes
pub mod Generated
pub mod Internal
pub mod Answers
