-- Laws of an append with a summary.
pub mod AppendLaws
