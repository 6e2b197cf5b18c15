-- The definitions that the contracts of the calls with a summary cite (document 02, U8), in reading order.
pub mod Lines
pub mod Making
pub mod Moves
pub mod Flip
pub mod Tally
