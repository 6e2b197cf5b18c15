-- What the functions of `balance_places` ask of each other.
pub mod Internal
