-- The runner's calls are the operations of the fork-undo theorem.
pub mod PlaceLaws
pub mod LengthLaws
pub mod ViewLaws
pub mod BalanceLaws
pub mod NearLaws
pub mod StepHolds
pub mod HoldLaws
pub mod StartLaws
pub mod InputLaws
pub mod PieceLaws
pub mod ProgramLaws
pub mod SmallRuns
