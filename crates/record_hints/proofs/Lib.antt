-- The law of hints.
pub mod HintLaws
