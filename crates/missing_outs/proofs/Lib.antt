-- The ways out of `told`, and that a missing row's number fits.
pub mod MissingLaws
pub mod BoundLaws
pub mod LineBounds
