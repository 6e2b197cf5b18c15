-- The laws of `history_steps`, for its functions and for the crates above.
pub mod ListLaws
pub mod ExampleLaws
