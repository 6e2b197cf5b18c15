-- The runner reads every load to its end.
pub mod ReadLaws
pub mod RunLaws
pub mod StateLaws
