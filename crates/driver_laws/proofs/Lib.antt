-- The driver in the terms of the fork-undo theorem.
pub mod RowCodes
pub mod CodeLaws
pub mod ChangeLaws
pub mod InputLaws
pub mod JournalLaws
pub mod EntryLaws
pub mod ApplyLaws
pub mod SpellLaws
pub mod SpellMade
pub mod ReachLaws
pub mod SettleLaws
pub mod RefineLaws
pub mod HoldLaws
pub mod OkLaws
pub mod OpLaws
pub mod TheoremLaws
pub mod SmallHistory
