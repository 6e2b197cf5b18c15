-- Laws of a pop with a summary.
pub mod PopLaws
