-- The laws of a balance's tokens, for the functions that change them and for every crate above.
pub mod IdLaws
pub mod TokenLaws
pub mod RunLaws
pub mod CloseLaws
