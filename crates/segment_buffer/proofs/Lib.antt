-- The table theorem of document 01's starred trial values.
pub mod TestVectorsLaw
