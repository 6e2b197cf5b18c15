-- The definitions that the contracts of `segment_writing`, `segment_reading`, `segment_loading` and the crates above them cite: the segment row of document 01, "Segment row".
pub mod Row
pub mod Reading
pub mod Loading
pub mod Internal
pub mod Answers
