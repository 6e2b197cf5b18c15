-- The laws of `refusal`.
pub mod DriftLaws
pub mod CodeLaws
