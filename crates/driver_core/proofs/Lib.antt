-- What the definitions say of the runner's calls and of small inputs, and what a credit or a debit keeps.
pub mod RunnerLaws
pub mod KeepLaws
pub mod Small
pub mod SmallRuns
