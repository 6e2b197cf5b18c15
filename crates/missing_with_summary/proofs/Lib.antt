-- The ways out of `missing_for_flip_with_summary`, and the laws of what to fetch.
pub mod CallLaws
pub mod FetchLaws
