-- The laws of `load`, for its functions and for the crates above.
pub mod LoadLaws
pub mod PieceLaws
