-- Laws and proofs of `call_session`.
pub mod LineLaws
pub mod CallLaws
pub mod SessionLaws
