-- Laws of the calls that a run makes.
pub mod AlongLaws
pub mod AnswerLaws
pub mod RunLaws
pub mod RunRoom
pub mod DeliveredLaws
