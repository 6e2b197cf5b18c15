-- The laws of `trial_laws`.
pub mod PrefixLaws
pub mod NearLaws
pub mod CallNear
pub mod ListsNear
pub mod StepNear
pub mod Capacities
pub mod Parts
pub mod Bounds
pub mod Enough
pub mod Short
