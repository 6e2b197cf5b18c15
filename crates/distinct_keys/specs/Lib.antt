-- What the steps of the search for equal keys ask of each other; the definitions that the contracts of `records_ok` and `keys_ok` cite stand in `records`.
pub mod Internal
