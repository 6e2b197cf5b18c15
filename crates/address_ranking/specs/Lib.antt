-- The definitions that the contracts of `address_ranking` cite.
pub mod Rank
pub mod Internal
