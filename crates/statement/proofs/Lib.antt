-- The laws of `statement`.
pub mod FigureLaws
pub mod NearestLaws
pub mod BeforeLaws
