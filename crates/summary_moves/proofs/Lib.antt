-- Laws of the tests of 36.
pub mod MoveLaws
