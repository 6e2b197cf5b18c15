-- Laws of a page's rows.
pub mod PageLaws
