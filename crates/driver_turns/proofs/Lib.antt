-- Laws and proofs of `driver_turns`.
pub mod TurnLaws
