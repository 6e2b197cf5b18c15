-- The laws of `text`, for its own functions and for every crate above.
pub mod TextLaws
pub mod HexLaws
pub mod ApartLaws
