-- The laws of `balance`, for its own functions and for every crate above.
pub mod BoxLaws
