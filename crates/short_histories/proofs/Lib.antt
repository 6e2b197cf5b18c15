-- The laws of `short_histories`, for its functions and for the crates above.
pub mod LengthLaws
pub mod ListedLaws
