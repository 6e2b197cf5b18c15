-- Laws of the ledger.
pub mod TestLaws
pub mod RuleLaws
pub mod LeaveLaws
pub mod ShortLaws
pub mod AnswerLaws
pub mod PrefixLaws
