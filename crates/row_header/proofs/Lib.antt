-- The laws of a row's header.
pub mod HeaderLaws
