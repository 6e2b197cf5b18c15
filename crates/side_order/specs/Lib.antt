-- The definitions that the contracts of `side_order` cite.
pub mod Side
pub mod Internal
