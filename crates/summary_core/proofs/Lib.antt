-- The laws of summaries: the lines, making afresh, and what each call with a summary was, does and leaves.
pub mod LineLaws
pub mod MakingLaws
pub mod AcceptedLaws
pub mod MoveLaws
pub mod SearchLaws
pub mod FlipLaws
pub mod TallyLaws
pub mod SmallSummaries
pub mod CurrentLaws
