-- A driver over a working set.
pub mod StepLaws
pub mod BatchLaws
pub mod UndoLaws
pub mod FetchLaws
