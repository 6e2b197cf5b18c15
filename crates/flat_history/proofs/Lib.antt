-- The flat list and the index, with and without summaries, are instances of one law over two machines.
pub mod CountLaws
pub mod Answers
pub mod SameLaw
pub mod FlatLaws
pub mod MachineLaws
pub mod IndexAnswers
pub mod SummaryAnswers
pub mod Theorem
pub mod SmallHistories
