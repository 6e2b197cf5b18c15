-- The laws of `entries`.
pub mod TurnLaws
pub mod Counts
pub mod OrderLaws
pub mod PositionLaws
pub mod FlipLaws
pub mod SmallFlips
pub mod TallyLaws
pub mod UnspentLaws
