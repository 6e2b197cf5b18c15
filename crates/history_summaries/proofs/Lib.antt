-- Summaries stay current, and the theorem of the calls with summaries.
pub mod Rows
pub mod Right
pub mod Answers
pub mod AppendKeeps
pub mod PopKeeps
pub mod FlipKeeps
pub mod FlushKeeps
pub mod RowLaws
pub mod SummaryLaw
pub mod Refusals
pub mod Simulation
pub mod Theorem
pub mod SameRuns
pub mod ExampleLaws
pub mod SmallHistories
