-- The laws of `segment`.
pub mod CallLaws
