-- The list of every short history holds what is asked for, in order, and nothing else.
pub mod HeadOnly
pub mod StandingLaws
pub mod IndexSteps
pub mod AskedLaws
pub mod Theorem
