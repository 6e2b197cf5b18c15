-- The order of addresses.
pub mod Order
