-- Laws of the answers of a run.
pub mod AnswerLaws
