-- Laws of the comparison of tokens.
pub mod IdOrder
pub mod NextLaws
pub mod AboveLaws
pub mod PickLaws
