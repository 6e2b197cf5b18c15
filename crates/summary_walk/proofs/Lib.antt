-- Laws of the walk over a summary.
pub mod WalkLaws
