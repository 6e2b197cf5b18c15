-- The definition that the contracts of `balance_in_place` cite beside those of `balance`.
pub mod InPlace
