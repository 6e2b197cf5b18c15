-- The statement of document 01's starred trial values.
pub mod TestVectors
