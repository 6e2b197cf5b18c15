-- Laws of refusal 25 with a summary.
pub mod CheckLaws
