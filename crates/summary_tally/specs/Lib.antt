-- What a step of the tally with a summary answers. The tally itself is defined in `summary_core`, Tally.
pub mod Internal
