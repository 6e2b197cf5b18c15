-- The laws of the walk.
pub mod WalkLaws
