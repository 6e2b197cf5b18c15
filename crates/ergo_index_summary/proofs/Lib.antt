-- The laws that the exports' proofs cite.
pub mod SummaryLaws
