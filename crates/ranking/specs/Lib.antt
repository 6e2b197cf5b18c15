-- What the ranks of addresses keep to. The answer of a call is defined in address_ranking/specs/Rank.antt.
pub mod RankOrder
