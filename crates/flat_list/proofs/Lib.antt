-- The laws and proofs of `flat_list`.
pub mod FlatLaws
