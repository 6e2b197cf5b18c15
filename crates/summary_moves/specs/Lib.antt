-- What the steps of an append and of a pop with a summary answer. The calls are defined in `summary_core`, Moves.
pub mod Internal
