-- Laws of a page while it is filled.
pub mod FillLaws
