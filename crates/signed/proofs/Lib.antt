-- The laws of `signed`, for its own functions and for every crate above.
pub mod SignedLaws
pub mod SumLaws
