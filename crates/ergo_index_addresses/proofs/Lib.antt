-- The laws that the exports' proofs cite: one for each way out.
pub mod AddressLaws
