-- Laws of looking over the lines for the row that is missing.
pub mod LineLaws
