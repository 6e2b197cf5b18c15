-- The laws of the rows of a spend and an unspend.
pub mod TakeLaws
pub mod RowLaws
