-- Laws and proofs of `driver_journal`.
pub mod PushLaws
pub mod KeptLaws
