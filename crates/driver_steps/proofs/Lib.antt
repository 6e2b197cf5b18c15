-- Laws and proofs of `driver_steps`.
pub mod MoveLaws
