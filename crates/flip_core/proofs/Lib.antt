-- The laws of a spend and an unspend.
pub mod EffectLaws
pub mod KeepLaws
