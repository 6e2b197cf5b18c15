-- The laws of `stores`, for its own functions and for every crate above.
pub mod StoreLaws
pub mod LoopLaws
pub mod PutLaws
pub mod EqualLaws
pub mod TableLaws
