-- The laws of reading a row in either edition.
pub mod ReadingLaws
