-- The definitions that the contracts of `segment_id` cite.
pub mod Key
