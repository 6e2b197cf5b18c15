-- The laws of `segment_id`, for its own functions and for every crate above.
pub mod KeyLaws
