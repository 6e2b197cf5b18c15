-- Laws and proofs of `driver_rollback`.
pub mod RollbackLaws
