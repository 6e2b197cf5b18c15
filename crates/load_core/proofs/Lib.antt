-- The laws of `load_core`, for its functions and for the crates above.
pub mod DrawLaws
