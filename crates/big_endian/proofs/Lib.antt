-- The laws of `big_endian`, for its functions and for the crates above.
pub mod ByteLaws
