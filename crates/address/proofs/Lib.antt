-- The laws of `address`.
pub mod CallLaws
