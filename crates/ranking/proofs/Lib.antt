-- The order of ranked addresses, and examples.
pub mod RankLaws
pub mod OrderLaws
pub mod Examples
