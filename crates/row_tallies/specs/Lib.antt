-- What the steps of a tally answer. The tally itself is defined in `buffer_core`, Tally.
pub mod Internal
