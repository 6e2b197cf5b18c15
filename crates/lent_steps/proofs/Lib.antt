-- The laws of `lent_steps`.
pub mod LeaveLaws
pub mod LentLaws
