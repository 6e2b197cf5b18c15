-- The laws of an append.
pub mod AppendLaws
pub mod KeepLaws
