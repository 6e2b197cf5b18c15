-- Laws of the entries of a side.
pub mod TakenLaws
pub mod FillLaws
pub mod SideLaws
