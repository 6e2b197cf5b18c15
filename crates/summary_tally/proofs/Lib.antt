-- Laws of a tally with a summary.
pub mod TallyLaws
