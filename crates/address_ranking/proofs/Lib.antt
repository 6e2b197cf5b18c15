-- Laws of the call.
pub mod RankLaws
pub mod CheckLaws
