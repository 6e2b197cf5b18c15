-- The definitions that the contracts of `history_growth` and `short_histories` cite.
pub mod Listing
pub mod Internal
