-- The laws of BLAKE2b's definitions: the schedule's table, lists by their elements, and test vectors.
pub mod Table
pub mod TabulateLaws
pub mod Vectors
