-- The laws of `history_growth`.
pub mod GrowLaws
