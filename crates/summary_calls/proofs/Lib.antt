-- The laws of `summary_calls`, for its functions and for `summary`.
pub mod CallLaws
