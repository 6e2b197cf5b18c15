-- What the export tells.
pub mod RankingLaws
