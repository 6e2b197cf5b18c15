-- The laws of the halving.
pub mod SearchLaws
