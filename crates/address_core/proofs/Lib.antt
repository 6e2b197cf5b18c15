-- The laws of address records, for the functions that read and write them and for every crate above.
pub mod BytesLaws
pub mod WriteLaws
pub mod TokenLaws
pub mod CountLaws
pub mod LoadLaws
pub mod BackLaws
pub mod UniqueLaws
