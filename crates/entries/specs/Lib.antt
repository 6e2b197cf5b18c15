-- The definitions that the contracts of `entry_order`, `entry_flips`, `entry_tallies` and the crates above them cite.
pub mod Order
pub mod Flip
pub mod Tally
pub mod Unspent
