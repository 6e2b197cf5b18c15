-- The laws that the exports' proofs cite: one for each.
pub mod DriverLaws
