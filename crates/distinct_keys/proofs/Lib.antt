-- The laws of the search for equal keys.
pub mod TreeLaws
