-- The definitions that the contracts of `token_order` cite beside those of `address_order`.
pub mod Internal
