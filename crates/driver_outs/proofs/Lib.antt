-- Laws and proofs of `driver_outs`.
pub mod OutLaws
