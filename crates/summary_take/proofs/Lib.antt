-- Laws of a match in a row, with a summary.
pub mod TakeLaws
