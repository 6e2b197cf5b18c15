-- The laws of segment rows, for the functions that read and write them and for every crate above.
pub mod RowLaws
pub mod ListLaws
pub mod CountLaws
pub mod SegmentLaws
pub mod BackLaws
pub mod CodecLaws
pub mod UniqueLaws
pub mod Vectors
