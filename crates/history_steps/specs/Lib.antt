-- The definitions that the contracts of `history_steps` cite.
pub mod Ranks
pub mod Legal
