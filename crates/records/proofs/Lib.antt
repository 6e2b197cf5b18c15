-- The laws of `records`, for its own functions and for every crate above.
pub mod Views
pub mod TurnLaws
pub mod KeyLaws
pub mod RecordLaws
pub mod PutLaws
pub mod RemoveLaws
pub mod CheckLaws
