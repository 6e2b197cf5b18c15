pub mod HeldLaws
pub mod RunLaws
