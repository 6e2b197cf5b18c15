-- What putting a row does, and what is promised of it.
pub mod Putting
pub mod Laws
pub mod Answers
