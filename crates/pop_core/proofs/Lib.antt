-- The laws of a pop.
pub mod PopLaws
pub mod KeepLaws
