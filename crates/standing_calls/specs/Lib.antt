-- The definitions that the contracts of `standing_calls` cite.
pub mod Stands
