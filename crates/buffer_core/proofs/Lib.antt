-- The laws of heads, of sizes, of a row in either edition, of the three lists, of rows and pages, of what a refused call leaves, and small calls and rows that
-- compute, for the calls' crates.
pub mod HeadLaws
pub mod SizeLaws
pub mod UnderLaws
pub mod BackLaws
pub mod ListLaws
pub mod RowLaws
pub mod PageLaws
pub mod RefusedLaws
pub mod SmallCalls
pub mod SmallRows
