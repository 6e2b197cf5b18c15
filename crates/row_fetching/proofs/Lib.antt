-- The ways out of `put_row`, and the laws of putting a row.
pub mod PutWays
pub mod PutLaws
