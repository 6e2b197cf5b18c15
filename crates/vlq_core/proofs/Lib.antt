-- The laws of coded numbers, for the functions that read and write them and for every crate above.
pub mod Split
pub mod ZigzagLaws
pub mod GroupLaws
pub mod WriteLaws
pub mod ReadLaws
pub mod LoopLaws
pub mod ShortLaws
pub mod BackLaws
pub mod UniqueLaws
pub mod Vectors
