-- The laws of `row_fronts`.
pub mod FrontLaws
