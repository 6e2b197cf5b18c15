-- The refusals of a spend and an unspend.
pub mod CodeLaws
pub mod UnseenLaws
