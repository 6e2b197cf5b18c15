-- The definition that the contract of `missing_with_summary` cites, and what to fetch for the other calls with a summary.
pub mod Missing
pub mod Laws
