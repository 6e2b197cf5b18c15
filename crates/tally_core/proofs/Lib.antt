-- Laws of a tally.
pub mod TallyLaws
