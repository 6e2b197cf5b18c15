-- Laws of the flush.
pub mod FlushLaws
pub mod KeepLaws
