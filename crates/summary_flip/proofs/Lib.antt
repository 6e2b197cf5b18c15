-- Laws of a spend and an unspend with a summary.
pub mod FlipLaws
