-- Laws of a summary made afresh.
pub mod MakingLaws
