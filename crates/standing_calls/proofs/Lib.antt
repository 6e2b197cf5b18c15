-- Laws and proofs of `standing_calls`.
pub mod StandingLaws
