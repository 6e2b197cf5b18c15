-- Laws and proofs of `driver_undo`.
pub mod UndoLaws
pub mod TurnLaws
